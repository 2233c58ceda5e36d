pub mod PlaceLaw
pub mod ChangeLaw
pub mod SlotsLaw
pub mod SystemLaw
pub mod OpenLaw
pub mod VerdictLaw
pub mod ShapeLaw
