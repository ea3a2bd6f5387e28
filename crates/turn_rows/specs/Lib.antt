pub mod Between
pub mod Machines
