pub mod ListLaw
