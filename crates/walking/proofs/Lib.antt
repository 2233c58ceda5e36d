pub mod LeavesLaw
pub mod TwoLaw
pub mod ThreeLaw
