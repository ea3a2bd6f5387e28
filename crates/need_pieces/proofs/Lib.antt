mod Executed
pub mod Unwaited
mod Alone
mod Flushes
mod Calls
pub mod Served
