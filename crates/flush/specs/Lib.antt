pub mod Flushed
pub mod Sweeping
