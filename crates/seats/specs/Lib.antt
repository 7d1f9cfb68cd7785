pub mod Plain
pub mod Packets
pub mod Peers
pub mod Network
pub mod Promise
