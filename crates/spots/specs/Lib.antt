-- Document 01's starred spots.
pub mod Starred
