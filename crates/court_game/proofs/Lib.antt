pub mod Stays
pub mod Codes
pub mod Tones
pub mod PassingLemmas
