-- What the entries of a table say, and what is read from them.
pub mod Reading
pub mod Words
pub mod code
