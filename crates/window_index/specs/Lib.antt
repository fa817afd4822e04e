pub mod Buckets
pub mod Groups
pub mod Fitting
pub mod Counting
pub mod Orderly
pub mod Holding
