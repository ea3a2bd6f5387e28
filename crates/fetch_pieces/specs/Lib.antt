pub mod Regimes
pub mod Fetching
pub mod Laws
