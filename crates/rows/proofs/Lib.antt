pub mod AnswerLaw
pub mod PackLaw
