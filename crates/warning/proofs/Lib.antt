pub mod AroundLaw
pub mod WarningLaw
pub mod Cases
