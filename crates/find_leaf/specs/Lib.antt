-- Finding the leaf that holds a position.
pub mod Leaf
pub mod code
