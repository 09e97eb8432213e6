pub mod Sounds
pub mod Levels
pub mod Sums
pub mod Clips
