-- Document 01, "Restore list and its following", the following. Read them in this order.
pub mod Following
pub mod AsHeld
pub mod Calls
pub mod Laws
