-- What the calls for the tests answer.
pub mod Answers
