pub mod Serial
pub mod Roots
pub mod Limits
pub mod Skips
