pub mod Clocks
pub mod Kinds
