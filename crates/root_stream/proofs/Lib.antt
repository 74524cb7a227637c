-- Cell 0's stream, made from the drawing in lent tables.
pub mod Ahead
pub mod Whole
pub mod Base
pub mod Loop
pub mod Fill
pub mod Opened
mod Examples
