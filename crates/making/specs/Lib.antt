-- A stream made from another, in tables, and the numbers of its making.
pub mod Made
pub mod code
