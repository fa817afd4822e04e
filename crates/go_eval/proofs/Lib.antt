pub mod Switching
pub mod Ranging
pub mod Calling
pub mod Entering
pub mod LeavingCalls
pub mod Carrying
pub mod Leaving
mod Counting
mod Running
mod Sequences
mod Programs
mod Endings
