-- Document 01, "Backup text": a row of it, written, read and judged. Read them in this order.
pub mod Decimals
pub mod Answers
pub mod Row
pub mod Calls
pub mod Laws
