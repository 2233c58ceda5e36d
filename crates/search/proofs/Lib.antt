pub mod PartsLaw
