pub mod SmallWorld
