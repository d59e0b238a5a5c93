pub mod Answered
pub mod InTurn
pub mod Lists
pub mod Modes
pub mod Patterns
pub mod Rows
pub mod SetFront
