-- Laws of the definitions of specs/, and what the proofs of the functions cite.
pub mod Signs
pub mod Starts
pub mod Sending
pub mod Pieces
pub mod Keeping
pub mod Replying
pub mod Heeding
pub mod Giving
pub mod Judging
pub mod Theorems
pub mod Same
