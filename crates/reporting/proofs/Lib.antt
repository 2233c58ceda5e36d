pub mod RanLaw
