-- Laws of the table of cells; what a cell that passes says, and its parent; the path down and the leaf that it finds; examples.
pub mod Table
pub mod Powers
pub mod Ranges
pub mod Grid
pub mod Parents
pub mod Meaning
pub mod Quarters
pub mod Walk
pub mod Landing
mod Examples
