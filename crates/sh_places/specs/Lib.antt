pub mod Spot
pub mod Looks
pub mod Finding
pub mod Parts
