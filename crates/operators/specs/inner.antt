-- What no reader has to believe.
pub mod Limits
pub mod Merges
pub mod Slices
