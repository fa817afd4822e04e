pub mod Likeness
pub mod Links
pub mod Kin
pub mod Locals
pub mod Mates
pub mod Seen
pub mod Laws
