-- Laws of finding a leaf: what the leaf that is found says; that it is found from each of its positions; examples.
pub mod Landing
pub mod Same
mod Examples
