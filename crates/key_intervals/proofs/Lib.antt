pub mod Conjuncts
mod OwnConjuncts
pub mod FixedLemmas
pub mod DirectionLemmas
mod ColumnLemmas
mod NextLemmas
mod SortedValues
pub mod KeyLemmas
