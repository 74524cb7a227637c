-- The streams of an accepted drawing are in range.
pub mod Groups
pub mod Depth
pub mod Weights
pub mod Segments
pub mod Passing
pub mod Numbers
pub mod Items
pub mod Streams
pub mod Reading
pub mod Examples
