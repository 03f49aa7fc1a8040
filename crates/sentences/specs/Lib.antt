-- The sentences that claim something (ours). Read them in this order.
pub mod Texts
pub mod Values
pub mod Laws
pub mod ValueLaws
pub mod Worked
