pub mod CutLaw
pub mod PieceLaw
pub mod ListedLaw
