pub mod Numbers
pub mod Checks
pub mod Places
pub mod PieceLoop
pub mod Images
pub mod Memory
pub mod Exports
