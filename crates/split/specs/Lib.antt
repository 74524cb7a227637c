-- Splitting a cell of a tree in lent tables.
pub mod Split
pub mod code
