-- Demand 3: the history of splits, what is claimed of the tables and of each answer, and the list of calls.
pub mod History
pub mod NoTree
pub mod Stands
pub mod Calls
pub mod Shown
pub mod Lists
pub mod Demand
pub mod Files
pub mod code
