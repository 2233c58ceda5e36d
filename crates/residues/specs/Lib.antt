pub mod Residue
pub mod Sums
