pub mod Composed
pub mod SameWalk
