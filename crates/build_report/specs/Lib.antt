pub mod Lines
pub mod Faults
pub mod Plans
pub mod Builds
