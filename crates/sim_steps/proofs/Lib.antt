pub mod Meetings
mod Ends
mod Spreads
mod Steps
