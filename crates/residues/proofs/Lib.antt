pub mod Every
pub mod FloorLaw
pub mod ModLaw
pub mod SumLaw
