pub mod Faultless
pub mod OneReading
pub mod Taking
