pub mod TallyLaw
