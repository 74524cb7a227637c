-- Sides and open groups, as document 01 says it and as the code holds them.
pub mod Sides
pub mod code
