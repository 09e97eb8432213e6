pub mod Groups
pub mod Station
pub mod Stems
pub mod Law
