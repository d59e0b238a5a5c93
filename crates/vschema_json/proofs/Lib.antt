pub mod Lists
pub mod Sizes
pub mod Formats
pub mod Options
pub mod Repeats
pub mod Named
