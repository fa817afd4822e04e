pub mod Lists
pub mod Growing
pub mod RightSides
pub mod ReachedTypes
pub mod Again
