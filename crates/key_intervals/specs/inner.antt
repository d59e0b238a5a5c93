pub mod Turned
pub mod KeysOf
pub mod Walks
