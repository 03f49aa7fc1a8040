-- Laws of the definitions of specs/, and what the proofs of the functions cite.
pub mod Nearness
pub mod Rows
pub mod Neighbours
pub mod Pairs
pub mod Windows
pub mod Printings
pub mod Theorems
pub mod Same
