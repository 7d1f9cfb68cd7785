pub mod Plain
pub mod Saved
pub mod Seats
