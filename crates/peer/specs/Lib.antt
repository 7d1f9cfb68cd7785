pub mod Refusals
pub mod Peers
pub mod Lent
