pub mod Behind
mod Asking
pub mod Quiet
mod Owning
pub mod Turning
pub mod Ending
