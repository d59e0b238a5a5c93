pub mod CallLemmas
pub mod Examples
pub mod FirstLemmas
pub mod MergeLemmas
pub mod OrderLemmas
pub mod SliceLemmas
pub mod Turns
