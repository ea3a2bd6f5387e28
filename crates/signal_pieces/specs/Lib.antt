pub mod Signalling
pub mod Laws
