-- The one-pass pruner as the numbers that the code holds.
pub mod code
