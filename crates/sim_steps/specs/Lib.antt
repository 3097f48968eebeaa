pub mod Took
pub mod Meetings
pub mod Cores
pub mod Spreads
pub mod Steps
pub mod Laws
