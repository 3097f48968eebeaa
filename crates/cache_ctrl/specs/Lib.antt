pub mod Table
pub mod Duties
pub mod States
