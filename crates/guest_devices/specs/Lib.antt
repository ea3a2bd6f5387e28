pub mod Output
pub mod Pending
pub mod Stores
