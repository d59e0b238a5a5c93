mod Letting
pub mod Lists
pub mod Steps
pub mod Takings
