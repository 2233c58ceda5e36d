pub mod Equations
pub mod Parts
