pub mod Views
pub mod Deeds
pub mod Worlds
pub mod Lines
pub mod Inner
