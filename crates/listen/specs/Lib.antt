-- The stream and the box's patience. Read them in this order.
pub mod Hearing
pub mod Calls
pub mod Laws
