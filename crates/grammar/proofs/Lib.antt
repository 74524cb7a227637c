-- The code answers what the grammar answers; what an accepted list of records has.
pub mod Meaning
pub mod Laws
