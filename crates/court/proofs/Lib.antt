pub mod Steps
pub mod Bits
pub mod Signs
pub mod Stays
pub mod Ranges
pub mod FormerRuleLemmas
pub mod Heard
pub mod PassingLemmas
