pub mod Marks
pub mod Ways
pub mod Names
pub mod Numbers
pub mod Marked
