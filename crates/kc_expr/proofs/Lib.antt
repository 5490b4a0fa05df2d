pub mod Chains
pub mod Complete
pub mod Conds
pub mod Found
pub mod Loops
pub mod Sound
