mod ByRule
mod Groups
mod Kept
mod Rising
mod Steps
mod Tables
mod WordKinds
