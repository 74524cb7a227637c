-- A drawing in its tables, and when lent tables hold one.
pub mod Tables
pub mod code
