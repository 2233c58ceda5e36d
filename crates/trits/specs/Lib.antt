pub mod Trit
pub mod Words
