pub mod Lists
pub mod Functions
