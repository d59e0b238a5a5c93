pub mod Needed
pub mod Spans
