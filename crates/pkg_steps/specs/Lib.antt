pub mod Filling
pub mod Lines
pub mod Outcome
pub mod Origins
pub mod Runs
pub mod Stepping
pub mod Shelving
