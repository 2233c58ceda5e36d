pub mod First
pub mod Opened
pub mod Parts
