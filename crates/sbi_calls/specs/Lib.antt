pub mod Spans
pub mod Fences
pub mod Done
