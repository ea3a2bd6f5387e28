pub mod Placing
pub mod Kept
pub mod Behind
pub mod Owing
pub mod Hits
