-- A record, the ranges of its fields, and its sixteen bytes.
pub mod Record
pub mod Kinds
pub mod Bytes
