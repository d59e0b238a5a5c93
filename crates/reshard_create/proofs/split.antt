pub mod Lists
pub mod Counting
pub mod Those
pub mod Splits
pub mod Growing
