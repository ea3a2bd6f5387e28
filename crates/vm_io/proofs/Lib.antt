pub mod Pieces
pub mod FoundFiles
pub mod Counts
