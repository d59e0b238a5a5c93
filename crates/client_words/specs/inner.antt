pub mod Known
pub mod Parts
pub mod Sources
pub mod Written
