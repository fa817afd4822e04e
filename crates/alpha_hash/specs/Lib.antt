pub mod Shown
pub mod Rolling
pub mod Starts
