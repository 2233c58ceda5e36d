pub mod Balanced
pub mod Answers
