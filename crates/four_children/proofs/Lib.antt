-- Laws of the four children.
pub mod Squares
pub mod Tallies
pub mod Made
pub mod Worked
pub mod Tallied
pub mod Examples
pub mod Filled
pub mod Placed
