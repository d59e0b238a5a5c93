mod Changes
mod Copies
mod Shelf
mod Counts
pub mod Dropped
pub mod Exchanges
