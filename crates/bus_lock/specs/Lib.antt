pub mod Meetings
pub mod Rule
pub mod Answers
pub mod Seats
