pub mod Monitors
pub mod Rooms
pub mod Reads
pub mod Steps
pub mod Logs
pub mod Laws
pub mod Turning
