pub mod ActionNumbers
pub mod Sharing
pub mod Rule
pub mod Answers
pub mod Seats
pub mod TestRuns
