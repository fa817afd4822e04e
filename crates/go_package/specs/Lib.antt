pub mod Reading
pub mod Functions
pub mod Checks
