pub mod Positions
pub mod Parts
