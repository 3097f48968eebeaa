pub mod Tokens
pub mod Laws
pub mod Numbers
pub mod Operands
pub mod Widths
pub mod Meanings
pub mod NameTable
