pub mod Bytes
pub mod Grammar
pub mod Lexer
pub mod Lines
pub mod Shown
pub mod ShownLines
pub mod TextLines
