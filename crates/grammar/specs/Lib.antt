-- The order of records: what document 01 says, what the code computes, and what a list of records holds.
pub mod Grammar
pub mod Lists
pub mod code
