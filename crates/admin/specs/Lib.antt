pub mod Words
pub mod AdminAnswers
pub mod Idle
pub use Rattle.route_engine.specs.contracts.engine.Engine
