-- The leaves of a tree in key order.
pub mod Listed
pub mod Numbers
