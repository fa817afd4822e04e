pub mod Limits
pub mod Packages
pub mod Longer
pub mod Examples
pub mod Written
