pub mod Fences
pub mod Harts
pub mod Logs
pub mod Parts
pub mod Executing
pub mod Turning
pub mod Paths
pub mod Laws
