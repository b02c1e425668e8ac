pub mod Table37
pub mod Table38
pub mod Region5
pub mod Parts
