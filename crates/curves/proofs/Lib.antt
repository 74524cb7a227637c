-- The laws of lines and curves: where they count, by products, by fractions, and that both are segments.
pub mod Products
pub mod Segments
pub mod Lines
pub mod Forms
pub mod Sides
pub mod Fractions
pub mod Tests
pub mod Implicit
pub mod Sentences
pub mod Shapes
pub mod Bounds
pub mod Boxes
mod Examples
