pub mod MoveLaw
pub mod NearLaw
pub mod EntryLaw
