pub mod Agreeing
pub mod Counts
pub mod Heights
pub mod Ordered
pub mod Closure
pub mod Resolved
pub mod Read
pub mod Examples
