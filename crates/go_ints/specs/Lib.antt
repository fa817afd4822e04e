pub mod Arithmetic
pub mod Bitwise
pub mod Examples
pub mod Kinds
pub mod Wrapping
