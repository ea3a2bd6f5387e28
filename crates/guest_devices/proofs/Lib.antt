pub mod Touched
pub mod Cleared
pub mod Goes
