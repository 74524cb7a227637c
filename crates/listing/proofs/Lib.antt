-- Laws of the lines that the lister prints.
pub mod Order
pub mod Listing
pub mod Every
pub mod Only
