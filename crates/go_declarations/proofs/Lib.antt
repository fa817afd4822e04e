pub mod Literals
pub mod Parts
pub mod Rows
pub mod Surveys
pub mod Public
