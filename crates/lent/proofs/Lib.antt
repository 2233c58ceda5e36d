pub mod LentLaw
