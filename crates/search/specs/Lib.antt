pub mod Decision
pub mod Run
pub mod Bracket
pub mod Bisection
pub mod Brent
pub mod Search
pub mod Demand
pub mod Patience
