pub mod Placed
pub mod Line
