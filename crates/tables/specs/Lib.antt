pub mod Monomials
pub mod Words
pub mod Answers
pub mod Differences
pub mod Cases
