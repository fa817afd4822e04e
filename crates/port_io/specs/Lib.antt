pub mod Calls
pub mod Faults
pub mod Streams
pub mod Plans
pub mod Held
pub mod Folders
pub mod Stored
pub mod Listing
