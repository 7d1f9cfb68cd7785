pub mod Inputs
pub mod Wire
