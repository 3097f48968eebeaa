pub mod Ranges
pub mod Formats
