-- The four children of a cell.
pub mod Children
pub mod Worked
pub mod code
