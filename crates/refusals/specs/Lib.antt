-- The numbers of refusals.
pub mod Refusals
