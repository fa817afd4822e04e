pub mod Heights
pub mod Order
pub mod Package
pub mod Rows
pub mod Tiles
pub mod Public
