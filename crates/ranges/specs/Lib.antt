-- What an accepted drawing has, and when lent tables hold it.
pub mod Held
pub mod code
