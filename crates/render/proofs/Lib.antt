pub mod Endings
pub mod Texts
pub mod Steps
pub mod Pieces
pub mod Outputs
pub mod Inputs
