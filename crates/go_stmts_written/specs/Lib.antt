pub mod Named
pub mod Packages
