-- Laws of the definitions of specs/, and what the proofs of the functions cite.
pub mod Streams
pub mod Answers
pub mod Helds
pub mod Hearing
pub mod RoundTrip
pub mod Reached
pub mod Since
pub mod Cuts
pub mod Same
pub mod Theorems
