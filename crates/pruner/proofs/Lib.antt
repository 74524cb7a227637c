-- Laws of the pruner's numbers.
pub mod Laws
pub mod Near
