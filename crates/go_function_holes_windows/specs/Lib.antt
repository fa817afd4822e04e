pub mod Statements
pub mod Windows
