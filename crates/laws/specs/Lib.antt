-- Tests that compute: over the numbers of a range, over a table, and of two integers.
pub mod Ranges
pub mod Tables
pub mod Integers
