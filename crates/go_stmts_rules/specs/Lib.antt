pub mod Seen
pub mod Told
pub mod Ranges
pub mod Firsts
