-- What a printed line is, and the numbers in it. Read them in this order.
pub mod Lines
pub mod Numbers
pub mod Laws
pub mod Worked
pub mod AsPut
