pub mod Passes
pub mod Typing
pub mod Printing
pub mod Among
pub mod Places
pub mod Knowing
pub mod Scripts
