pub mod Compare
pub mod Filled
pub mod Kept
pub mod Books
