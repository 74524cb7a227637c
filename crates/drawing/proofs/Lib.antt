-- Words that a table holds, records in tables, and the round trips.
pub mod Has
pub mod Rows
pub mod Rowlaws
pub mod Lists
pub mod Theorems
mod Examples
