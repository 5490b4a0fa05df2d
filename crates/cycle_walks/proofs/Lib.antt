pub mod Bottoms
pub mod Cycles
pub mod Descents
pub mod Members
pub mod Ordered
pub mod Ranges
pub mod Sights
