pub mod PolyLaw
pub mod TableLaw
pub mod FormLaw
pub mod TermsLaw
pub mod ChangeLaw
pub mod QuadLaw
