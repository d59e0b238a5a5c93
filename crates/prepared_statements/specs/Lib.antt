pub mod Texts
pub mod Tokens
pub mod Holes
pub mod Held
pub mod inner
