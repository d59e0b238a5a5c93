-- When targets may take the sources' place, for those who begin a workflow.
pub use Rattle.reshard_create.specs.split.Splits.{IsSplit, target_seats}
