pub mod Bit
pub mod Each
pub mod Eight
pub mod Shown
