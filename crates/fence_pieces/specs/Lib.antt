pub mod Behind
pub mod Asking
pub mod Owning
pub mod Ending
pub mod Laws
