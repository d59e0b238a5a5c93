pub mod Numbers
pub mod Frames
pub mod Framing
pub mod inner
