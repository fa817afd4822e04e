pub mod Renumbered
pub mod Reached
pub mod Frames
pub mod Functions
