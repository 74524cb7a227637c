-- What only contracts between crates and proofs use: the code's numbers, and what follows for them.
pub mod Survivors
pub mod Pruner
pub mod Counters
pub mod Effects
pub mod Weights
