pub mod Terms
pub mod Sums
pub mod Tables
pub mod Powers
pub mod Kinds
