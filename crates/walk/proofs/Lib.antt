pub mod SearchLaw
pub mod WalkedLaw
pub mod LeapsLaw
pub mod MeanLaw
pub mod CallLaw
pub mod Cases
