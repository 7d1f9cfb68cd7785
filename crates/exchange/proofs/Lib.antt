pub mod Held
pub mod Machines
pub mod Tallies
