-- What a split leaves as it was, and what it makes.
pub mod Rows
pub mod Kept
pub mod Trees
pub mod Entries
pub mod Passing
