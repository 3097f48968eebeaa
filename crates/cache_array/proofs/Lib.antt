pub mod Exports
mod Lines
mod Keeps
mod ByAge
mod Stands
mod Renewal
mod Free
mod Sets
mod Ways
mod Nth
mod Sorting
mod Powers
