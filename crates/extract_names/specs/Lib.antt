pub mod Pieces
pub mod Gaps
pub mod Sites
pub mod Sentences
pub mod Examples
pub mod NameExamples
pub mod Copies
pub mod CopyExample
