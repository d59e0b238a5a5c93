pub mod Pieces
pub mod Scatter
pub mod InTransactions
