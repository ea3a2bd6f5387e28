pub mod Reached
