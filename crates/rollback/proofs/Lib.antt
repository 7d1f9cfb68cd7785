pub mod Bytes
pub mod Windows
pub mod Predictions
pub mod Joins
pub mod Rowed
pub mod Taken
