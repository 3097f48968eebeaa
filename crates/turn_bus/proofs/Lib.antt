pub mod Views
pub mod TurnMoves
pub mod TurnLooks
pub mod TurnActs
pub mod SeatLists
pub mod Seatings
pub mod Exports
pub mod TestSeats
