pub mod FillLaw
pub mod TurnLaw
