pub mod ByStamp
pub mod Searches
pub mod Entries
pub mod Renewal
pub mod Keeps
pub mod Exports
