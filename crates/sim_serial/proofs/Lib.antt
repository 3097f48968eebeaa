pub mod Slots
pub mod Opens
pub mod Words
pub mod Keeps
pub mod Sims
pub mod Exports
