pub mod Names
pub mod Rows
pub mod Residual
pub mod Pairs
