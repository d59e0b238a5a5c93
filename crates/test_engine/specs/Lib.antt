pub mod shard_limits
