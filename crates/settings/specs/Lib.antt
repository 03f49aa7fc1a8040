-- Document 01, "Settings": the constant table, the rules over it, and what each public call answers. Read them in this order.
pub mod Columns
pub mod Printed
pub mod Rules
pub mod Answers
pub mod Calls
pub mod Laws
