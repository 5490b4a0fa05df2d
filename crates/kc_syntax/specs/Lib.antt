pub mod Events
pub mod Fault
pub mod Grammar
pub mod Reading
pub mod Shown
pub mod Sound
pub mod State
pub mod Step
