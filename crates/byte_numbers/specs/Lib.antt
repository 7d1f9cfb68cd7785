pub mod Little
pub mod Numbers
