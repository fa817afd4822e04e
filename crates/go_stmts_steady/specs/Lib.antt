pub mod Ordered
pub mod Read
pub mod Asked
