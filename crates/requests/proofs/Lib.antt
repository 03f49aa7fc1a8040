-- Laws of the definitions of specs/, and what the proofs of the functions cite.
pub mod Asking
pub mod Theorems
pub mod Same
