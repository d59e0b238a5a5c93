pub mod Reached
pub mod Snapshots
