pub mod TableLaw
pub mod ValuesLaw
pub mod SlotLaw
