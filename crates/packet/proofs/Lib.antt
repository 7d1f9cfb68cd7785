pub mod Checks
pub mod Firsts
pub mod Readings
pub mod Writings
pub mod Lowest
