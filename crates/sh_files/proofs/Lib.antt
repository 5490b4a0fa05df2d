pub mod Modes
pub mod Walked
pub mod Last
pub mod Attempts
pub mod Missing
pub mod Depths
pub mod Optioned
pub mod Copies
