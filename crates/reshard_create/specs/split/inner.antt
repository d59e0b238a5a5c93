pub mod Takes
pub mod Grown
