pub mod Format
pub mod Checks
pub mod Reading
pub mod Laws
