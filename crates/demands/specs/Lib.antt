-- What was demanded, as statements over the crates below. Read them in this order.
pub mod Sets
pub mod Talk
pub mod Demand1
pub mod Demand2
pub mod Demand3
pub mod Shams
pub mod Lines
