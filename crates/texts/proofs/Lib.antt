pub mod TextLaw
