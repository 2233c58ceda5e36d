pub mod TurnLaw
pub mod AnswerLaw
pub mod SignLaw
pub mod BalancedLaw
pub mod Cases
