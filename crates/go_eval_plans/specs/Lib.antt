pub mod Views
pub mod Known
pub mod Called
pub mod Machines
pub mod Places
pub mod Programs
pub mod Targets
