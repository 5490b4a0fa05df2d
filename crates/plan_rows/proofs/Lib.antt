pub mod Finding
pub mod OwnPrep
