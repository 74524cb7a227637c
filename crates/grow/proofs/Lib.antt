-- One ascending sweep is growing.
pub mod Tries
pub mod Fuel
pub mod Rounds
pub mod Swept
pub mod Depths
pub mod Turned
pub mod Looped
pub mod Calls
pub mod Ends
mod Examples
