pub mod Memory
pub mod Means
pub mod Lent
pub mod Board
pub mod Search
pub mod Access
