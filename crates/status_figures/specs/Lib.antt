pub mod Layout
pub mod Words
pub use Rattle.keyrange.specs.Names
