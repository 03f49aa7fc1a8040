-- Laws of the definitions of specs/, and what the proofs of the functions cite.
pub mod Effects
pub mod Standings
pub mod Matching
pub mod Counting
pub mod Reaching
pub mod Theorems
pub mod Same
