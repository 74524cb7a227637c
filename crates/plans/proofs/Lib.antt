-- An accepted list of records gives a drawing with every number in range; each record but a control corner gives one element; tables that
-- hold the records hold the drawing.
pub mod Runs
pub mod Bent
pub mod Lines
pub mod Fits
pub mod Depths
pub mod Numbers
pub mod Weights
pub mod Curves
pub mod Valid
pub mod Source
pub mod Held
mod Examples
