pub mod Leading
pub mod Snapshots
