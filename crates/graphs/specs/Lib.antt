pub mod Edges
pub mod Reading
pub mod Scans
pub mod Drawn
