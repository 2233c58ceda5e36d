pub mod ListingLaw
