pub mod Spans
pub mod Asked
pub mod Ends
pub mod States
pub mod Printing
pub mod Called
