pub mod Naming
pub mod Structs
pub mod Types
