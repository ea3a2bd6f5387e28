pub mod Parts
pub mod Listing
pub mod Lists
pub mod Assembly
pub mod Found
pub mod Operations
