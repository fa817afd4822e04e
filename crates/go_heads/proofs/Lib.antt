pub mod Counting
pub mod Bodies
mod Spellings
pub mod Outlines
pub mod Files
mod Carried
pub mod Words
pub mod Functions
pub mod Numbers
mod Decided
mod Declarations
mod Rows
mod Alike
mod Telling
mod Clear
mod Outside
pub mod Declared
pub mod Objects
pub mod Scopes
mod Imports
pub mod Meanings
pub mod Lookups
mod Ends
mod HeadBodies
pub mod Blocks
pub mod Fresh
pub mod Names
mod Locals
pub mod Told
pub mod Parts
mod FunctionNumbers
pub mod Shifted
pub mod Apart
pub mod TokenNumbers
pub mod Tokens
pub mod Pairs
pub mod Public
