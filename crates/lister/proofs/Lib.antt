-- The lister prints each leaf, and what it prints is of the tree that opening and growing leave.
pub mod Depths
pub mod FileLeaves
pub mod FileTexts
pub mod Filling
pub mod Leaves
pub mod Outcomes
pub mod Texts
