-- Laws of the definitions of specs/, and what the proofs of the functions cite.
pub mod Ending
pub mod Gathering
pub mod Viewing
pub mod Uncut
pub mod Yard
pub mod Theorems
pub mod Same
