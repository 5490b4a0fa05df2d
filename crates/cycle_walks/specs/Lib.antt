pub mod Descent
pub mod Graph
pub mod Order
pub mod Reach
pub mod Walks
