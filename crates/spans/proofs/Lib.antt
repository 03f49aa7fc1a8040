-- Two answers of a call are the same.
pub mod Same
-- A few bytes: the lemmas, and what is proved by the names of the statements.
pub mod Fews
pub mod Theorems
