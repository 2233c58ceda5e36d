pub mod Given
pub mod Slots
pub mod Told
