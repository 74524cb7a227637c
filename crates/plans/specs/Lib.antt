-- The drawing of a list of records, and the elements of its source.
pub mod Plans
pub mod code
