pub mod Table34
pub mod Saturation
pub mod Ends
