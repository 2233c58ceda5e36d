pub mod ShapeLaw
