pub mod Grown
pub mod LineCuts
pub mod Exports
