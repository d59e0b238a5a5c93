pub mod Keywords
pub mod Pieces
pub mod Tokens
pub mod inner
