-- Laws of writing.
pub mod Marks
pub mod Agree
pub mod Places
pub mod Written
pub mod Same
pub mod Turn
pub mod Whole
