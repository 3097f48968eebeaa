pub mod Parsed
pub mod Course
pub mod Ordered
pub mod Stops
pub mod Laws
