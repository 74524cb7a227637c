-- The theorems about cells and their streams.
pub mod Cells
pub mod Segments
pub mod Each
pub mod Streams
pub mod Bounds
pub mod Elements
mod Examples
pub mod Making
