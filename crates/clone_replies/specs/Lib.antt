pub mod Classes
pub mod Listing
pub mod Maximal
pub mod Names
pub mod Numbers
pub mod RunContents
pub mod Replies
pub mod ReplyContents
