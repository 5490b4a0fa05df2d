pub mod Walks
pub mod Ages
