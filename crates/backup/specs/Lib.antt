-- Document 01, "Backup text": the text written and read, and what the calls answer. Read them in this order.
pub mod Answers
pub mod Text
pub mod Calls
pub mod Laws
