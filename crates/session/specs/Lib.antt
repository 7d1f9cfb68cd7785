pub mod Events
pub mod Files
pub mod Following
pub mod Refusals
pub mod Rows
pub mod Standing
pub mod Whole
