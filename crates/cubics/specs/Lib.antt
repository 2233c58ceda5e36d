pub mod Cubic
pub mod Derived
pub mod Rows
pub mod Triples
pub mod Whole
