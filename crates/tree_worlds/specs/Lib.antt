pub mod World
pub mod Program
pub mod Steps
pub mod HeldWorld
pub mod Kept
pub mod Operand
pub mod Naming
