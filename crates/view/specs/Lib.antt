-- The machine that asks for a board's read-only values (ours; document 01, "Read-only values"). Read them in this order.
pub mod Values
pub mod Calls
pub mod Laws
