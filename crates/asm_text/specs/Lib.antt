pub mod Table
pub mod Text
pub mod Operand
pub mod Values
pub mod Action
