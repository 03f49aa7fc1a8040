-- What a frame that the box has read says: document 01, the second step of "What the box reads", and the last paragraph of "Read-only
-- values". Read them in this order.
pub mod Answers
pub mod Replies
pub mod Units
pub mod Calls
pub mod Events
pub mod Laws
