pub mod Fields
pub mod Packing
pub mod Writing
pub mod Records
pub mod Decoding
pub mod Whole
