pub mod Rising
pub mod Begun
pub mod Declared
pub mod Packages
pub mod Lying
pub mod Told
