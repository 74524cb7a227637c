-- What only proofs use.
pub mod Opened
