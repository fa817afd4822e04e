pub mod Views
pub mod Assigned
pub mod Judged
pub mod States
pub mod Reads
pub mod Procedures
