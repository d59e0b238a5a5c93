-- What no public clause reaches. The lemmas stand in specs/ since the laws of an impl can't cite proofs/.
pub mod Columns
pub mod CountLemmas
pub mod ExtremeLemmas
pub mod Grouping
pub mod KeyLemmas
pub mod PartLemmas
pub mod SumLemmas
