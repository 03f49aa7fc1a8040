-- Document 01: who a board is, what it has measured, and what of it is read out. Read them in this order.
pub mod Parts
pub mod Values
pub mod Answers
pub mod Calls
pub mod Laws
