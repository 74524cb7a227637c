-- Laws of the table of entries, of an entry by its kind, of the counts of lines and segments, and of the loop over a stream; that the state in the code
-- says what the grammar says; when a stream is uniform; the signed numbers that words stand for; what holds of a stream that passes; examples.
pub mod Table
pub mod Entries
pub mod Laws
pub mod Counts
pub mod Runs
pub mod Meaning
pub mod Uniform
pub mod Signed
pub mod Passed
mod Examples
