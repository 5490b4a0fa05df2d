pub mod Names
pub mod Each
pub mod Lists
pub mod Selected
pub mod Chains
pub mod Shown
pub mod Selecting
