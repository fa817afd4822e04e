pub mod Ways
pub mod Holes
