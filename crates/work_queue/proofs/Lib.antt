pub mod Ringed
pub mod Posted
pub mod Acked
