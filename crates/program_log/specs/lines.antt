pub mod Levels
pub mod Lines
pub mod Writing
pub mod Unforged
