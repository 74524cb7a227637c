-- Laws of what is read from a tree at a position.
pub mod Painted
pub mod Known
pub mod Reach
