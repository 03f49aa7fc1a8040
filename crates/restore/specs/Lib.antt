-- Document 01, "Restore list and its following", the list: which Sets in which order, and what each public call answers. Read them in this
-- order.
pub mod Order
pub mod Answers
pub mod Calls
pub mod Laws
