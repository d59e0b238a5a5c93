pub mod AliasLemmas
pub mod Sayings
