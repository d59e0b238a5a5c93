pub mod Letting
pub mod inner
pub mod Order
