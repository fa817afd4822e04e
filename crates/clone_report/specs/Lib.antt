pub mod Maximal
pub mod Covered
pub mod Keys
pub mod Ends
pub mod Examples
