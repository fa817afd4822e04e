pub mod Terms
pub mod Texts
pub mod Alike
pub mod Windows
pub mod Functions
pub mod Public
