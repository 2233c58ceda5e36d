pub mod Order
pub mod Words
pub mod Answers
