pub mod Circles
pub mod Columns
pub mod Needs
pub mod Order
pub mod Ranks
pub mod Views
pub mod Closure
