-- Laws of the definitions of specs/, and what the proofs of the functions cite.
pub mod Packing
pub mod Same
pub mod Theorems
