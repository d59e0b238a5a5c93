pub mod Bindings
pub mod Points
pub mod Spelled
pub mod Powers
pub mod Wholes
