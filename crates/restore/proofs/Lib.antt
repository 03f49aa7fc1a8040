-- Laws of the definitions of specs/, and what the proofs of the functions cite.
pub mod Placing
pub mod Differing
pub mod Restoring
pub mod Writing
pub mod Rows
pub mod Putting
pub mod Refusing
pub mod Theorems
pub mod Same
