-- What a frame is and how its characters are read: document 01, "Frames", and the whole frame of "What the box reads". Read them in this
-- order.
pub mod Digits
pub mod Frame
pub mod Parsing
pub mod Answers
pub mod Refusals
pub mod Calls
pub mod Laws
