-- Laws of the definitions of specs/, and what the proofs of the functions cite.
pub mod Decimal
pub mod Ranges
pub mod Rows
pub mod Judging
pub mod Theorems
pub mod Same
