-- The bench: what its two calls answer.
pub mod Calls
