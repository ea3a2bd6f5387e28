pub mod Clears
pub mod Wiped
pub mod Flushings
