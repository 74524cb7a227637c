-- The table of cells, which numbers in it are in range, and the path down to the leaf that holds a position: what document 01 says and what the code computes.
pub mod Table
pub mod Ranges
pub mod Descent
pub mod code
