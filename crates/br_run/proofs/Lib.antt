pub mod Answers
pub mod FilesAnswers
pub mod Puts
pub mod SmallFiles
pub mod Told
pub mod Builds
pub mod Failed
pub mod Reports
