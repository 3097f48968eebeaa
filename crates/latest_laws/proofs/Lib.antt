pub mod Follows
pub mod Accesses
pub mod Phases
pub mod Actions
pub mod Runs
pub mod Exports
