pub mod Words
pub mod Tellings
pub mod Times
pub mod Writings
pub mod Unforged
