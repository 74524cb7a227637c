-- The shown set, and the material, colour and pixel that follow from it, in the order of document 01.
pub mod Sets
pub mod Areas
pub mod Colours
pub mod Pixels
