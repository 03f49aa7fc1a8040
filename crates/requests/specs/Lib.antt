-- What the box asks of a board about a setting. Read them in this order.
pub mod Requests
pub mod Calls
pub mod Laws
