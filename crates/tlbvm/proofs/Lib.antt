pub mod Quiet
pub mod Intakes
pub mod Ends
pub mod Orderly
pub mod Reported
pub mod OptionRows
pub mod There
