pub mod Operations
pub mod Value
pub mod Rounding
pub mod Middle
