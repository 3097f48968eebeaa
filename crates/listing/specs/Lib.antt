pub mod Waits
pub mod Rests
pub mod Pieces
pub mod Asked
