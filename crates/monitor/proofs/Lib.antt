pub mod Areas
pub mod First
pub mod Going
pub mod Words
pub mod Silent
pub mod Events
pub mod Within
pub mod Turned
