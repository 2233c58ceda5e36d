pub mod GraphLaw
pub mod NextLaw
pub mod BeginLaw
pub mod TellLaw
pub mod DriveLaw
pub mod CaseLaw
