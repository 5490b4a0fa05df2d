pub mod Additions
pub mod Counts
pub mod OneOrder
pub mod Takings
pub mod Users
