pub mod BytesLaw
pub mod HarnessLaw
