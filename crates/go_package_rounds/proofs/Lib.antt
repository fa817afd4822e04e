pub mod Standings
pub mod Scopes
pub mod RightSides
pub mod Stays
pub mod Settled
pub mod Listed
pub mod Judged
pub mod Public
