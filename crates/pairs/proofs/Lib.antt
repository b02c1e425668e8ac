pub mod Cases
pub mod Doubles
pub mod Names
