pub mod Output
pub mod Parts
pub mod Cases
