-- Laws of the definitions of specs/, and what the proofs of the functions cite.
pub mod Nibbles
pub mod Bytes
pub mod Frames
pub mod Answers
pub mod RoundTrip
pub mod Refusing
pub mod Same
pub mod Theorems
