pub mod EdgeLaw
pub mod ReadLaw
pub mod SoundLaw
pub mod OnceLaw
