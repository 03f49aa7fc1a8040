-- The calls for C: how an answer is packed in one integer, and that it can be taken apart again. Read them in this order.
pub mod Calls
pub mod Laws
