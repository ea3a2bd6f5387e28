pub mod Aside
pub mod Acking
pub mod Rounds
