pub mod Session
pub mod Replies
pub mod Extracting
pub mod Maximal
pub mod Answers
pub mod After
