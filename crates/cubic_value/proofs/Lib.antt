pub mod SumLaw
