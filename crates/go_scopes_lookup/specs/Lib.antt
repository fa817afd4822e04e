pub mod Keys
pub mod Sited
pub mod Sorted
pub mod Stacks
pub mod Tables
pub mod Views
