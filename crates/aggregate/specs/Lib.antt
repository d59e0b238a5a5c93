pub mod Aggregates
pub mod Groups
pub mod Keys
pub mod Laws
pub mod Parts
pub mod inner
pub use Rattle.operators.specs.Orders
pub use Rattle.operators.specs.Slices
