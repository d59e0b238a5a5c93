pub mod Families
pub mod Texts
pub mod Shards
pub mod Table
pub mod Metrics
pub use Rattle.status_figures.specs.declared.figures.Figures
