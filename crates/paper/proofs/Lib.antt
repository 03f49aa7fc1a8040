-- Two answers of a call are the same, and what is proved by the name of the statement.
pub mod Same
pub mod Theorems
