-- Laws of opening a tree.
pub mod Rooms
pub mod Accepted
pub mod Judged
pub mod After
mod Examples
