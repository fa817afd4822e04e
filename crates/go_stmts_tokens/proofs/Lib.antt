mod Lying
mod Trees
mod Typings
mod Layouts
mod Readings
pub mod Public
