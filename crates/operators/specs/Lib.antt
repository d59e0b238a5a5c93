pub mod Calls
pub mod Orders
pub mod Slices
pub mod inner
pub use Rattle.sql_tree.specs.declared.Item
