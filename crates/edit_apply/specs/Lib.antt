pub mod Edited
pub mod Begun
pub mod Answers
pub mod Places
pub mod Applied
