pub mod AnswerLaw
