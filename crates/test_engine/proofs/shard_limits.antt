pub mod SmallWorld
pub mod Here
