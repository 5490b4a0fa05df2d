pub mod OneAnswer
pub mod Right
pub mod Workers
