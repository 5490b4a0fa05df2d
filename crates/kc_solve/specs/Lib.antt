pub mod Filled
pub mod Groups
pub mod Index
pub mod Named
pub mod Sequence
pub mod Symbols
pub mod Taken
pub mod Words
