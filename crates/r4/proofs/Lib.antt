pub mod Lines
pub mod Doubles
pub mod Above
