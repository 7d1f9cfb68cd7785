pub mod Lasting
pub mod Sums
pub mod Writes
pub mod InRange
