-- Laws of the definitions of specs/, and what the proofs of the functions cite.
pub mod Hearing
pub mod Settling
pub mod Merging
pub mod Patience
pub mod Leaning
pub mod Theorems
pub mod Same
