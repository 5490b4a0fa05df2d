pub mod Needs
pub mod Order
pub mod Waiting
