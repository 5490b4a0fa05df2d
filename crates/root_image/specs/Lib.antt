pub mod Lines
pub mod Roots
pub mod Words
pub mod Reading
pub mod Spelling
pub mod Reader
