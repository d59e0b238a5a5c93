pub mod Reversal
pub mod Swaps
