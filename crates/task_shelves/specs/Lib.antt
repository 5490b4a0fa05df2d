pub mod Shelf
pub mod Sealed
pub mod Labels
pub mod Packages
pub mod Grounded
