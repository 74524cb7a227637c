-- Where a line and a curve count, taken from the lower end, and which curves a drawing may have.
pub mod Lines
pub mod Curves
pub mod code
