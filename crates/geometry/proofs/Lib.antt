-- The laws of edges, fill rules, classes, windings and keys.
pub mod FillRules
pub mod Edges
pub mod Sentences
pub mod Squares
pub mod Classes
pub mod Keys
pub mod Windings
