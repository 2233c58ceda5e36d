pub mod SpeltLaw
pub mod ShapeLaw
pub mod CellLaw
pub mod RereadLaw
