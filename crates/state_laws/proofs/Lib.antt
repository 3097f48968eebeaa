pub mod Steps
pub mod Follow
pub mod Phases
pub mod Meanings
