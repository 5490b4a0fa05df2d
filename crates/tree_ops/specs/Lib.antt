pub mod Tree
pub mod Pen
pub mod Change
pub mod Walk
pub mod Held
pub mod Walking
pub mod Laws
