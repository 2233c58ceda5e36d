pub mod Held
pub mod Stands
pub mod Visits
pub mod Thirds
