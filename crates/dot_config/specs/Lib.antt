pub mod Line
pub mod Reading
pub mod SaidBy
pub mod Symbols
pub mod Writing
