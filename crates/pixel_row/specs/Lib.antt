-- Rows of pixels.
pub mod Rows
pub mod code
