pub mod Given
pub mod Reading
pub mod Table
pub mod Words
