pub mod Found
pub mod Ranks
pub mod Rows
pub mod Steps
