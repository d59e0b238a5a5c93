pub mod inner
pub mod Rebuilt
