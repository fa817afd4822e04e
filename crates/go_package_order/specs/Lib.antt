pub mod Progress
pub mod Reaches
