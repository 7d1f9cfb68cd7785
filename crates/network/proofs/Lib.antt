pub mod Beginnings
pub mod OnePeer
pub mod Halves
pub mod Rows
pub mod Networks
pub mod Arrivals
pub mod Sixty
