pub mod inner
pub mod Choices
pub mod Splits
