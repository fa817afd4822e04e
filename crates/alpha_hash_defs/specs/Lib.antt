pub mod Naming
pub mod Words
pub mod Numbers
pub mod Hash
pub mod Alike
pub mod Packages
pub mod Sharing
pub mod Examples
