pub mod Lanes
pub mod Lent
