pub mod Effects
pub mod Accesses
