-- The laws that every crate cites.
pub mod Booleans
pub mod Ranges
pub mod Tables
pub mod Tests
pub mod Integers
pub mod Differences
pub mod Signed
pub mod Choices
