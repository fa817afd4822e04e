pub mod Gives
mod NameLemmas
pub mod Public
