-- Document 01: what a board answers to a whole frame. Read them in this order; who it is and what it reads out is in `who`.
pub mod Answers
pub mod Refusals
pub mod AsHeld
pub mod Settled
pub mod Calls
pub mod Laws
