pub mod inner
pub mod Steps
pub mod Turns
pub use Rattle.shard.specs.Modes
