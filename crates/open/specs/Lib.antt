-- Opening a tree.
pub mod Open
pub mod code
