pub mod LowestLaw
pub mod PositionLaw
pub mod PartLaw
pub mod PowerLaw
pub mod Cases
