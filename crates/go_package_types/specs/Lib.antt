pub mod Answers
pub mod Numbers
pub mod Places
pub mod Merged
pub mod Known
pub mod Whole
pub mod SpecificationPlaces
