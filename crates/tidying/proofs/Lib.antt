pub mod TidyLaw
pub mod SetLaw
pub mod CountLaw
