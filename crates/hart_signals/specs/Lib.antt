pub mod Signals
pub mod Starts
