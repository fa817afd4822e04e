mod Along
mod Spelling
mod Parts
mod Settling
mod Operators
mod Indexes
mod Calls
mod Literals
mod TypeNodes
mod Nodes
mod Typing
pub mod Public
