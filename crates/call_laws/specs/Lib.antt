pub mod Found
pub mod Did
pub mod Laws
