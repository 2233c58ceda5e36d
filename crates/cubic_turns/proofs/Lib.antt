pub mod LoopLaw
