pub mod Bytes
pub mod Defined
pub mod Rounds
pub mod Values
pub mod Placed
pub mod Resolved
pub mod Filled
pub mod Laws
