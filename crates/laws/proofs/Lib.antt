-- Laws that belong to no one layer.
pub mod Bools
pub mod Lists
pub mod Promise
pub mod Fronts
pub mod Cutting
pub mod Theorems
