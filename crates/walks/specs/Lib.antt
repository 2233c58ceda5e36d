pub mod Walk
pub mod Calls
pub mod Zeros
pub mod Cost
pub mod Runs
