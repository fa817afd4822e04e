pub mod Checked
pub mod Rules
pub mod Names
pub mod Objects
pub mod Examples
