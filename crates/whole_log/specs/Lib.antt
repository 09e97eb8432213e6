pub mod Outcome
pub mod Law
