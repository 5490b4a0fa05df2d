pub mod Behind
pub mod Choices
pub mod Equation
pub mod Faults
pub mod Names
pub mod Solution
pub mod Walks
