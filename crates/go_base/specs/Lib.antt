pub mod Gives
pub mod Optional
pub mod Name
pub mod Fault
pub mod Steps
pub mod Package
