pub mod inner
pub mod Workflows
pub mod Cutover
pub mod Reopened
pub mod Served
pub use Rattle.reshard_create.specs.Begun
pub use Rattle.reshard_create.specs.Configs
pub use Rattle.reshard_create.specs.Looked
pub use Rattle.reshard_create.specs.ReshardFault
pub use Rattle.reshard_create.specs.FirstMoves
pub use Rattle.reshard_create.specs.Looks
pub use Rattle.reshard_create.specs.FollowSteps as Steps
pub use Rattle.reshard_create.specs.Step
pub use Rattle.reshard_create.specs.Turns
