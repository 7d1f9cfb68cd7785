pub mod Said
pub mod Saved
pub mod Rows
