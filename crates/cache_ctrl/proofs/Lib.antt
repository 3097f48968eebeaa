pub mod Exports
mod Listed
mod Knows
mod Behind
mod Cells
mod Settled
mod Others
mod Own
mod Fills
mod Chooses
