pub mod Picture
pub mod Areas
pub mod Refusals
pub mod Text
