pub mod Rests
pub mod Tasks
pub mod Engines
pub mod Giving
pub mod Written
pub mod Tests
pub mod Loaded
