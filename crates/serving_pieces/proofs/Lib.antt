mod Stepping
mod Answering
pub mod Rounds
