pub mod Examples
pub mod Checks
pub mod Resolved
pub mod Single
pub mod Portions
pub mod Statements
pub mod Kept
