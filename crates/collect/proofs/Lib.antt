-- Laws of the definitions of specs/, and what the proofs of the functions cite.
pub mod Deciding
pub mod Moving
pub mod Fitting
pub mod Intakes
pub mod Reaching
pub mod Boards
pub mod Carrying
pub mod Calling
pub mod Theorems
pub mod Same
