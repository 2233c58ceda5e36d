pub mod RecordLaw
pub mod FitsLaw
pub mod VerdictLaw
pub mod TrailLaw
pub mod FirstLaw
