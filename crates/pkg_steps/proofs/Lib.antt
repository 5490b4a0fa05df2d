pub mod Going
pub mod Untouched
pub mod Taking
pub mod Kept
pub mod Drawn
pub mod Numbering
