pub mod WalkLoads
pub mod KeptWalks
