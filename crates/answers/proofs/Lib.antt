-- Laws of the definitions of specs/, and what the proofs of the functions cite.
pub mod Found
pub mod Deciding
pub mod Fitting
pub mod Making
pub mod Refusing
pub mod Telling
pub mod Asking
pub mod Holding
pub mod Theorems
pub mod Same
