mod Tidy
mod Hints
mod Telling
mod Found
mod Imports
mod Rows
mod Placing
mod Shared
mod Specified
mod Standing
pub mod Public
