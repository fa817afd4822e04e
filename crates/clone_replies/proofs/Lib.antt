pub mod Mapped
mod Masses
pub mod Fields
pub mod Tested
mod Places
mod Packages
mod Covering
mod MaximalTexts
mod MaximalClasses
mod Words
mod Mapping
mod Names
mod Holes
mod Renamings
pub mod Read
mod Follows
mod NumberPlaces
mod Functions
mod Steps
mod Told
mod Plans
mod Meanings
mod RunContents
mod ReplyContents
pub mod Public
