pub mod Step
pub mod Moves
