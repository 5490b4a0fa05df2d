pub mod Walks
pub mod Tasks
