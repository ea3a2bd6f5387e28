pub mod Single
pub mod Sides
pub mod Stopping
pub mod Starting
