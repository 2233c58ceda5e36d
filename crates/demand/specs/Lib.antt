pub mod Session
pub mod Demand
pub mod Rows
pub mod Cases
