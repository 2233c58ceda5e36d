pub mod ExtraLaw
pub mod FormLaw
