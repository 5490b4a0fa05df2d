pub mod Found
pub mod Overwrites
pub mod Roots
pub mod Owners
pub mod Firsts
