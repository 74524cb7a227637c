-- The tables of a tree after a split, and what becomes of its entries.
pub mod After
pub mod Entries
