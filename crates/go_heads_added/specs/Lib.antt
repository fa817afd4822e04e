pub mod Added
pub mod Appended
pub mod Examples
pub mod Within
pub mod Faults
pub mod Kept
pub mod Reported
