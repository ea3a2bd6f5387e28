pub mod DirtyBits
