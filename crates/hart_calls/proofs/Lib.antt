pub mod Named
pub mod MaskCalls
pub mod Starts
pub mod Printed
pub mod Going
pub mod Stances
pub mod Framed
