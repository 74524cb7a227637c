-- Laws of zone logs.
pub mod Runs
pub mod Passes
pub mod Agree
