pub mod Digits
pub mod Writes
pub mod Steps
pub mod Fronts
