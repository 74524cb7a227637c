-- Laws of the loops over a parent's stream.
pub mod Fronts
pub mod Clear
pub mod Few
pub mod Loop
pub mod Noting
pub mod Tail
pub mod Fill
