pub mod Stepping
pub mod Reaching
pub mod Touching
pub mod Loading
pub mod Storing
pub mod Atomics
pub mod Accessing
