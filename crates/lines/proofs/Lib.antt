pub mod LineLaw
pub mod SplitLaw
pub mod ReturnLaw
pub mod WrittenLaw
