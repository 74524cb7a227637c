-- The starred spots hold.
pub mod Checked
pub mod Tables
