pub mod Keeps
pub mod Switching
pub mod Runs
