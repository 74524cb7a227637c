-- The numbers that the exported calls answer.
pub mod Answers
pub mod Readings
