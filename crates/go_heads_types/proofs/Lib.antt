pub mod Specifications
pub mod Portions
mod Told
mod Entities
mod NumbersBelow
mod Typed
mod Assigned
mod Rounds
mod Below
mod Starts
mod Specified
mod Answers
pub mod HashTexts
mod Sites
pub mod Sited
pub mod Looked
mod Same
pub mod Meant
mod Telling
mod Closure
pub mod Kept
mod Classes
pub mod Shared
mod Names
mod Headers
mod Params
mod Bodiless
mod Outside
pub mod Packages
pub mod HeadPortions
pub mod Numbers
mod Further
mod Inside
pub mod Pairs
mod Failing
mod StateAssigned
mod Judged
mod Scopes
mod States
mod StateAnswers
pub mod Rights
pub mod Steps
pub mod Typings
mod Checked
mod Texts
mod Bodies
mod Locals
mod Homes
mod Alike
pub mod Public
