-- Words that belong to no one layer.
pub mod Lists
pub mod Promise
pub mod Cutting
pub mod Refusals
pub mod Laws
