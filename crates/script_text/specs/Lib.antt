pub mod Script
pub mod Output
pub mod Reads
pub mod Examples
