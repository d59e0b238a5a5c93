mod Fits
mod Masks
mod Greetings
mod Responses
mod Zeros
mod Examples
pub mod Printables
