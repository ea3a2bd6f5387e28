pub mod Remaining
pub mod Kept
mod Fitting
mod Answered
