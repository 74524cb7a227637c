-- Zone logs.
pub mod Logs
pub mod code
