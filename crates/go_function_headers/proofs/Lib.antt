mod Levels
mod Front
mod Header
mod Texts
mod Trees
mod Functions
pub mod Public
