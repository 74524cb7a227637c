-- Laws of rows of pixels.
pub mod Agree
pub mod Sampling
pub mod Filling
