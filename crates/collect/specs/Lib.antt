-- Reading a board, the Get of one setting after the other (ours; the follower's rules in document 01, "Restore list and its following", are
-- the model). Read them in this order.
pub mod Collecting
pub mod Calls
pub mod Laws
