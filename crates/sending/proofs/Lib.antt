pub mod EndLaw
