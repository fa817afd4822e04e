pub mod Moving
pub mod Sides
pub mod Renumbered
pub mod Examples
pub mod Public
