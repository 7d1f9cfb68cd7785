pub mod Near
pub mod Paints
pub mod Rows
pub mod Texts
