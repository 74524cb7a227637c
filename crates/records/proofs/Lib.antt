-- A record written as bytes is read back, and the other way.
pub mod Laws
pub mod Kindlaws
