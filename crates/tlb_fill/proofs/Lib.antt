pub mod Marking
pub mod Entering
pub mod Allowed
pub mod Reached
