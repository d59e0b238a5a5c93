pub mod Inputs
pub mod Statuses
pub mod ServeArgs
pub mod Words
