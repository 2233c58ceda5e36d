pub mod AnswerLaw
pub mod ColourLaw
pub mod CaseLaw
