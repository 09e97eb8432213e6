pub mod Trio
