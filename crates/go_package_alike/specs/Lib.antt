pub mod Scopes
pub mod Frames
pub mod Portions
