pub mod Steps
pub mod Lists
pub mod Counts
pub mod Meeting
pub mod Public
