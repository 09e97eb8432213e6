pub mod Numbers
pub mod Frames
pub mod Logs
pub mod Plays
pub mod Ports
pub mod States
pub mod Tones
