pub mod Questions
pub mod Identity
pub mod Tests
pub mod Sizes
pub mod Zeros
pub mod Extends
pub mod Renaming
pub mod Examples
