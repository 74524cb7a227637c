-- The words of records, and what reading a file answers and leaves.
pub mod Words
pub mod Reading
