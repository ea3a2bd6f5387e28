pub mod Asked
pub mod Asks
pub mod Fenced
pub mod Owns
pub mod Turned
