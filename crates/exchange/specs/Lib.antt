pub mod Agreed
pub mod Moves
pub mod Tallies
