-- What only contracts between crates and proofs use: the ranges of the code's numbers.
pub mod Reach
