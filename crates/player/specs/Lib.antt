pub mod Fault
pub mod Step
pub mod Left
