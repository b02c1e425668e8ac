pub mod Table2
pub mod Region1
