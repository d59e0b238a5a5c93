pub mod inner
pub mod Planned
pub mod Scripted
pub mod Wrong
