pub mod Found
pub mod Read
pub mod Rows
pub mod Single
pub mod Words
