pub mod Views
pub mod LockTries
pub mod LockReleases
pub mod SeatLists
pub mod TestSeats
