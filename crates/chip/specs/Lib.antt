pub mod Refusal
pub mod Control
pub mod Registers
pub mod Port
pub mod Chip
