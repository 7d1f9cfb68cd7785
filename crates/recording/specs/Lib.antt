pub mod Matches
pub mod Writing
pub mod Reading
pub mod Games
pub mod Promise
pub mod Showing
