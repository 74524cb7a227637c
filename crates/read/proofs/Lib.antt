-- What is written into tables, the loops over a file, and what an accepted file has.
pub mod Writes
pub mod Loops
pub mod Files
