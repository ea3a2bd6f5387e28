pub mod Rings
pub mod Posts
pub mod Acks
