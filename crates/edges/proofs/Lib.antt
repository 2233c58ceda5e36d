pub mod KeptLaw
