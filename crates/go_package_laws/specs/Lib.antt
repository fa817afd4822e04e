pub mod Reach
pub mod Names
pub mod Ranks
pub mod Judged
pub mod Stages
pub mod Places
