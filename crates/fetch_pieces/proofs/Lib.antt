pub mod Regimes
pub mod Fetching
