pub mod Words
pub mod Results
pub mod Lines
pub mod Statuses
