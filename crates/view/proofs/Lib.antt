-- Laws of the definitions of specs/, and what the proofs of the functions cite.
pub mod Serials
pub mod Widths
pub mod Hearing
pub mod Counting
pub mod Reaching
pub mod Same
