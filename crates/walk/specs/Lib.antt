pub mod Run
pub mod Meaning
