pub mod Games
pub mod Sounding
pub mod Held
pub mod Sounds
pub mod Passing
pub mod Snapshots
pub mod Saved
