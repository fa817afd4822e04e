pub mod Reworded
pub mod Unchanged
pub mod Extended
