pub mod PartLaw
