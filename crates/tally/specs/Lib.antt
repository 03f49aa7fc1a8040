-- The yard's sums. Read them in this order.
pub mod Results
pub mod Calls
pub mod AsHeld
pub mod Laws
