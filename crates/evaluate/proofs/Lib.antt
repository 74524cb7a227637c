-- The laws of reading.
pub mod Laws
mod Steps
mod Idle
mod Loop
pub mod Words
pub mod Uniform
