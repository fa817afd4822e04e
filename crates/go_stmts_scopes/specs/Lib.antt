pub mod Runs
pub mod Scoped
pub mod Statements
pub mod Shapes
pub mod Locals
pub mod Names
pub mod Standing
pub mod Examples
