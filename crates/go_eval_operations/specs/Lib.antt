pub mod Performing
pub mod Cuts
pub mod Settled
pub mod Places
pub mod Building
