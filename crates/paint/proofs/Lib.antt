-- The laws of sets, weights, colours and pixels.
pub mod Sets
pub mod Colours
pub mod Pixels
