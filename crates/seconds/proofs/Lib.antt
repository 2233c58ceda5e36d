pub mod CountedLaw
pub mod FilledLaw
