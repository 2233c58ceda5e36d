pub mod Poly
pub mod Terms
