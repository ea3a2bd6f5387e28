pub mod Listed
pub mod InFile
mod AssemblyRows
mod LabelSets
mod OneByOne
mod Kept
mod FileMade
