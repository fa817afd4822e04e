pub mod Named
pub mod Chosen
