pub mod Contexts
pub mod Expressions
pub mod Final
pub mod Examples
