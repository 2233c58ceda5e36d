pub mod OrderLaw
pub mod NthLaw
pub mod SumLaw
pub mod WordsLaw
pub mod Facts
pub mod HoldsLaw
pub mod PairLaw
