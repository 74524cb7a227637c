-- The start numbers of a child's areas, and the numbers of their counting.
pub mod code
