-- Laws of the definitions of specs/, and what the proofs of the functions cite.
pub mod Serials
pub mod Identities
pub mod SerialValues
pub mod ReadOut
pub mod Theorems
pub mod Same
