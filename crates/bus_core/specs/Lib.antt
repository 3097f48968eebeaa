pub mod Records
pub mod Agree
