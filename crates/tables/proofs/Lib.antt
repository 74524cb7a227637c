-- Laws of the numbers in use, of room, and of a leaf that passes.
pub mod Heads
pub mod Rooms
pub mod Counts
pub mod Leaves
