pub mod BracketLaw
