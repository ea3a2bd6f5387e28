pub mod Serving
pub mod Translating
pub mod Laws
