-- Laws of the definitions of specs/, and what the proofs of the functions cite.
pub mod Adding
pub mod Digits
pub mod Fractions
pub mod Theorems
pub mod Same
