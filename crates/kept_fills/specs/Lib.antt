pub mod Fills
pub mod Beside
