pub mod Takes
pub mod Layouts
pub mod Final
pub mod Answers
pub mod Names
pub mod Literals
pub mod Examples
pub mod Public
