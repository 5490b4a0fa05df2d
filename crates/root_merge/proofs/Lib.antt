mod Entries
mod Folders
mod Noting
mod Prefixes
mod Writing
mod Members
mod Gathering
mod Standings
mod Owned
mod Lefts
mod Unions
mod Naming
mod Fitting
mod Whole
mod Adding
mod Files
pub mod Each
