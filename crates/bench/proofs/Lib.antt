-- Laws of the definitions of specs/, and what the proofs of the functions cite.
pub mod Streaming
pub mod Running
pub mod Same
