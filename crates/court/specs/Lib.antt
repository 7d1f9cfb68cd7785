pub mod Frame
pub mod Keys
pub mod Bounds
pub mod FormerRule
pub mod Passing
pub mod Cues
