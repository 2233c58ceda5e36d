pub mod PartLaw
pub mod BlockLaw
pub mod TurnedLaw
