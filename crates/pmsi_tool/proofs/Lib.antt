mod Causes
mod Commands
