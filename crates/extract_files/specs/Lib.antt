pub mod Holes
pub mod Functions
pub mod Enclosed
pub mod Files
pub mod Levels
pub mod Extracted
