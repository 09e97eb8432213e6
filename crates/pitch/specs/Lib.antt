pub mod Pitch
