-- What only contracts between crates and proofs use: the code's numbers, and what follows for them.
pub mod Held
