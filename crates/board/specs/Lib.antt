-- Document 01: what a board holds, and what its calls answer. Read them in this order, after those of `answers`.
pub mod Parts
pub mod Calls
pub mod Refusals
pub mod AsHeld
pub mod Laws
