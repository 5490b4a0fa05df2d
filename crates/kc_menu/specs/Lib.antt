pub mod Menu
pub mod Visible
pub mod Wishes
