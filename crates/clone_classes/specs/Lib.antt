pub mod Choices
pub mod Classes
pub mod Ends
pub mod Heads
pub mod Listing
pub mod Orders
pub mod Examples
