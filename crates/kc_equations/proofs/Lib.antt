pub mod Agree
pub mod ChoiceLaws
pub mod Fits
pub mod OneAnswer
pub mod Parts
pub mod Runs
pub mod Texts
