pub mod ShareLaw
