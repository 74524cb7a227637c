-- Edges, windings, classes in a square and keys, in the order of document 01.
pub mod Edges
pub mod Windings
pub mod FillRules
pub mod Classes
pub mod Keys
pub mod code
