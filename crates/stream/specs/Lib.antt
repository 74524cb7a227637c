-- Entries, the table that holds them, and the grammar of streams: what document 01 says and what the code computes.
pub mod Kinds
pub mod Entry
pub mod Table
pub mod Grammar
pub mod code
