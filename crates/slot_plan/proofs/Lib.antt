mod NextOwn
mod Counts
pub mod Exports
