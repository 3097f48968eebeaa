pub mod Spellings
pub mod Scripts
pub mod Worked
