pub mod Grammar
pub mod Holds
pub mod Read
pub mod ShownLeft
