pub mod Held
pub mod World
pub mod Rights
