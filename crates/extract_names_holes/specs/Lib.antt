pub mod Spots
pub mod Chosen
