-- Laws of the definitions of specs/, and what the proofs of the functions cite.
pub mod Choices
pub mod Hearing
pub mod Origins
pub mod Dividing
pub mod Showing
pub mod Measures
pub mod Lengths
pub mod Heeding
pub mod Flags
pub mod Outcomes
pub mod Theorems
pub mod Same
