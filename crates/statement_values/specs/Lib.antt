pub mod Floats
pub mod Decimals
pub mod Values
pub mod Executions
pub mod inner
