-- What a row of bytes says, and what a call on the stream answers: document 01, "Frames", and the stream of "What the box reads". Read
-- them in this order; what a frame is is in `wire`.
pub mod Stream
pub mod Answers
pub mod Calls
pub mod Laws
