mod Courses
mod FileReads
mod Settled
mod Ends
mod Orders
mod Sames
mod Follows
pub mod Exports
