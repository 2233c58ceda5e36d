pub mod ReturnLaw
pub mod RoundLaw
