pub mod Results
pub mod Loops
pub mod Fronts
pub mod Steps
