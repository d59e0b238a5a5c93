pub mod Flags
pub mod Heads
pub mod Reading
pub mod Parts
pub mod Texts
pub mod Packing
