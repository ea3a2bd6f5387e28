pub mod Storing
pub mod Valued
pub mod Beyond
pub mod Begun
