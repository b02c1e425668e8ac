pub mod Sign
pub mod Power
pub mod Root
pub mod Log
pub mod Distance
pub mod Decimal
