pub mod Examples
pub mod Folding
pub mod Representing
