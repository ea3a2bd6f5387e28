pub mod Header
pub mod Fields
pub mod Loaded
pub mod ImageOf
pub mod Contents
