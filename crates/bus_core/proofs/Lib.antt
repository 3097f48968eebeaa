pub mod Records
pub mod Starts
pub mod Posts
pub mod Agree
pub mod Exports
