-- Demand 3 and its proof.
pub mod History
pub mod Upward
pub mod Made
pub mod Paints
pub mod Sound
pub mod Passing
pub mod Splits
pub mod Outcomes
pub mod Opened
pub mod Finding
pub mod Readings
pub mod Rows
pub mod Growing
pub mod Answers
pub mod Logs
pub mod Lists
pub mod Demand
pub mod Files
mod Examples
