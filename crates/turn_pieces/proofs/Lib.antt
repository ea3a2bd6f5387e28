pub mod Sections
pub mod Writers
pub mod Following
pub mod Offers
pub mod Calls
pub mod Accesses
pub mod Chains
pub mod KeptWalks
pub mod Bits
pub mod Unmarked
pub mod Rows
pub mod Wrong
pub mod TwoHarts
pub mod AtLimit
pub mod Hello
pub mod Crossing
pub mod FenceServed
pub mod FenceAsked
mod OldWalk
mod Stale
mod Moved
mod Script
