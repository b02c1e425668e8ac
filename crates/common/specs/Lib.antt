pub mod Constant
pub mod Table1
pub mod Causes
pub mod Boundaries
