pub mod StoodLaw
