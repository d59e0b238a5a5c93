pub mod Nexts
pub mod Through
pub mod Switches
pub mod Reopens
pub mod Serving
pub mod AllCopied
