pub mod SessionLaw
pub mod DemandLaw
pub mod SignedLaw
pub mod RowsLaw
pub mod Starred
