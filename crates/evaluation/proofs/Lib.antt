pub mod AnswerLaw
pub mod EvaluateLaw
