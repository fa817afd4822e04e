pub mod ZeroSizes
pub mod RunePlaces
pub mod Building
pub mod Plain
pub mod Picking
