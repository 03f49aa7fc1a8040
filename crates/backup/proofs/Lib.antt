-- Laws of the definitions of specs/, and what the proofs of the functions cite.
pub mod Places
pub mod Calls
pub mod Listing
pub mod Lining
pub mod RoundTrip
pub mod Answering
pub mod Theorems
pub mod Same
