pub mod Callings
pub mod Looks
pub mod Pairs
pub mod Passes
