-- What is read from a tree at a position.
pub mod Spots
pub mod code
