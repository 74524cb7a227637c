-- What the machine's numbers mean.
pub mod code
