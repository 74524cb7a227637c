-- The seven tables of a drawing and of its tree.
pub mod Tables
