pub mod Edits
pub mod Finding
pub mod FormatLaws
pub mod Formats
pub mod Newlines
pub mod ScriptLaws
pub mod Scripts
pub mod SedFiles
