pub mod Keyword
pub mod Row
pub mod ShownFront
pub mod Table
