pub mod Aside
pub mod Taking
