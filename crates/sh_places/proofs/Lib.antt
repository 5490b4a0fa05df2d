pub mod Ran
pub mod Walking
pub mod Sound
pub mod Children
