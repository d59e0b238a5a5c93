pub mod Alone
pub mod Among
pub mod Served
pub mod Turns
pub mod inner
pub mod conversation
pub use Rattle.route_engine.specs.Pendings
pub use Rattle.route_engine.specs.Alone as ShardCallsAlone
pub use Rattle.route_engine.specs.Answer
pub use Rattle.route_engine.specs.Reply
pub use Rattle.route_engine.specs.Transactions
pub use Rattle.route_engine.specs.Entries
pub use Rattle.route_engine.specs.contracts.engine.Engine
