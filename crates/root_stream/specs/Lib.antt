-- What cell 0's stream is made from, entry by entry, and what is asked of the lent tables.
pub mod Opened
pub mod code
