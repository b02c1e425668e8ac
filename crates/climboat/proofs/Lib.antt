pub mod Names
pub mod EveryCall
pub mod Patience
