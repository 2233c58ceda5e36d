pub mod ValueLaw
