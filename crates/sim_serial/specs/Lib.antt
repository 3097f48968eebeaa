pub mod Cores
pub mod Sims
