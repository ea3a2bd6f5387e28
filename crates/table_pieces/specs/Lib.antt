pub mod Flushing
pub mod Hitting
pub mod Laws
