pub mod Logs
pub mod Shows
