pub mod Judging
pub mod TaskBits
pub mod Turns
pub mod Waits
pub mod Yards
