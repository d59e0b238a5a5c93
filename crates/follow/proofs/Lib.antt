pub mod Onward
pub mod Moves
pub mod Turns
pub use Rattle.shard.proofs.LockedLooks
