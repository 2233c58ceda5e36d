pub mod VerdictLaw
pub mod ReadingLaw
pub mod OneLaw
pub mod WritesLaw
