-- Cells, the segments of areas in them, drawings, and the streams of a drawing, in the order of document 01.
pub mod Cells
pub mod Segments
pub mod Drawings
pub mod Streams
pub mod Elements
pub mod code
