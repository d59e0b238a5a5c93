pub mod FirstOrdinals
pub mod LateChecks
pub mod Mixes
pub mod StoredChecks
