-- Laws of the definitions of specs/, and what the proofs of the functions cite.
pub mod Tables
pub mod Theorems
pub mod Same
