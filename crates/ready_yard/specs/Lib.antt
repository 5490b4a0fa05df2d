pub mod History
pub mod Judged
pub mod Kept
pub mod TaskBits
