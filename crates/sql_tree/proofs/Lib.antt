pub mod Examples
pub mod Puts
