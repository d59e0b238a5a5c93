pub mod Answers
pub mod Asks
pub mod Grammar
pub mod Likes
pub mod Settings
pub mod Variables
pub mod inner
pub mod tokens
