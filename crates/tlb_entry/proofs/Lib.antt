pub mod ValidWords
pub mod Masked
