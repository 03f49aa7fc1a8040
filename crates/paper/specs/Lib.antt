-- The numbers of document 01, in its words.
pub mod Numbers
pub mod Laws
