pub mod Layouts
pub mod Literals
pub mod Alike
pub mod OverParts
