pub mod inner
pub mod Chunks
