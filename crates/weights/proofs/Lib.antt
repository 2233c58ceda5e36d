pub mod WeightLaw
pub mod RowLaw
