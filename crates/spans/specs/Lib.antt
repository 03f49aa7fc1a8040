-- Bytes at the front of an array of fixed room.
pub mod Few
pub mod Laws
