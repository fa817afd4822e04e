pub mod Sites
pub mod Behind
pub mod NewFiles
pub mod Levels
pub mod Accepted
pub mod Signatures
