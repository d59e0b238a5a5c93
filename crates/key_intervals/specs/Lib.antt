pub mod Intervals
pub mod Conjuncts
pub mod Listed
pub mod Directions
pub mod inner
