pub mod Cuttings
pub mod Tryings
pub mod HoleLaws
pub mod Places
pub mod HeldLaws
pub mod Tokens
pub mod SentValues
