pub mod Replies
pub mod Means
pub mod Sessions
pub mod Tellings
pub mod Kept
