pub mod Network
pub mod Promise
