-- Proofs of the statements of specs/.
pub mod Making
pub mod Talking
pub mod Deciding
pub mod Cuts
pub mod Listing
pub mod Feeding
pub mod Understanding
pub mod Replies
pub mod ReadOut
pub mod Shams
pub mod Lines
pub mod Gathering
pub mod Theorems
