pub mod SlotLaw
