-- Numbers as bytes: document 01, "Frames" and "Read-only values". Read them in this order.
pub mod Numbers
pub mod Laws
