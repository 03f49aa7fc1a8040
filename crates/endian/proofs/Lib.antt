-- Laws of the definitions of specs/, and what the proofs of the functions cite.
pub mod Little
pub mod RoundTrip
pub mod Decoding
pub mod Theorems
pub mod Same
