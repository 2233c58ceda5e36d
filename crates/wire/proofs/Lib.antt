pub mod WireLaw
pub mod SmallLaw
pub mod ZeroLaw
