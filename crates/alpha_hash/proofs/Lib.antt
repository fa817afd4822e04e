pub mod Folds
pub mod Declared
pub mod Rows
pub mod Runs
