pub mod Alike
pub mod Calls
pub mod Members
pub mod Extraction
pub mod Laws
pub mod Examples
