pub mod Gibbs
