-- Document 01, "Settings": a table of the numbers of all settings, and what each public call answers. Read them in this order.
pub mod Rules
pub mod Answers
pub mod Calls
pub mod Laws
