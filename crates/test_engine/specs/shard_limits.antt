pub mod SmallWorld
pub mod inner
