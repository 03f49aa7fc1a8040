-- Laws of the definitions of specs/, and what the proofs of the functions cite.
pub mod Counting
pub mod Refusing
pub mod Summing
pub mod Rounds
pub mod Theorems
pub mod Same
