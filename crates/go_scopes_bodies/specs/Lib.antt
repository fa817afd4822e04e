pub mod Meant
pub mod Outside
pub mod Faults
pub mod Carried
pub mod Listed
