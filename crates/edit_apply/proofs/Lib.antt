mod Order
mod Lists
mod AtPlace
pub mod Applied
pub mod Writing
pub mod Public
