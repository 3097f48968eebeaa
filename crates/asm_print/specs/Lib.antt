pub mod Names
pub mod Operands
pub mod InstrText
pub mod ListingText
