pub mod Writes
pub mod Limits
pub mod Joins
pub mod Runs
pub mod Stops
