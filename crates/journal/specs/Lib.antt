pub mod Runs
pub mod Names
pub mod Rules
pub mod Views
pub mod Laws
pub mod Held
pub mod inner
