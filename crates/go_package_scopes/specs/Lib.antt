pub mod Functions
pub mod Standing
pub mod Laid
pub mod Own
pub mod Runs
pub mod Examples
