pub mod inner
pub mod Steps
pub mod TargetSources
pub mod Looks
pub mod Overlapping
pub mod FirstMoves
pub use Rattle.follow.specs.Steps as FollowSteps
pub use Rattle.follow.specs.Turns
pub use Rattle.follow.specs.declared.steps.Step
