pub mod Engine
pub mod Parse
pub mod Turns
