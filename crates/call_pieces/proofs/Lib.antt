pub mod Placing
pub mod Served
pub mod Ending
pub mod Moving
pub mod Room
pub mod Copying
pub mod Printed
