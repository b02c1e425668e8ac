pub mod Table10
pub mod Table11
pub mod Region2
