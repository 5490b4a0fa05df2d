pub mod Few
pub mod Copied
pub mod Found
