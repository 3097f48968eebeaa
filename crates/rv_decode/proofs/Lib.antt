pub mod FormatFields
pub mod Rows
pub mod Encoded
pub mod Table
pub mod Exports
