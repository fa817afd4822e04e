pub mod AllNeeded
pub mod Below
pub mod Circled
pub mod Listed
pub mod Ranked
pub mod Sorted
mod Alike
mod Each
mod Enough
pub mod Public
