pub mod Last
pub mod Text
pub mod Steps
pub mod Playback
pub mod Stem
