pub mod Shown
pub mod Arguments
pub mod Appended
pub mod Meeting
