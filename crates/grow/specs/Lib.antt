-- Growing: what document 01 says and what the code computes.
pub mod Grow
pub mod code
