pub mod Sizes
pub mod Loads
pub mod Stores
pub mod Puts
pub mod Aside
