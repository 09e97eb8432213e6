pub mod Boards
pub mod Playing
pub mod Saved
