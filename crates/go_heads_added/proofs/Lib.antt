pub mod Numbers
pub mod Meant
pub mod Declared
pub mod Found
pub mod Objects
pub mod Names
pub mod Examples
mod Farther
mod Appended
mod Parameters
mod Longer
mod Blocks
mod Imports
mod Lying
mod Within
mod Files
mod Own
mod Texts
mod Redeclared
mod Asks
mod Following
mod Needing
mod Locals
mod Outer
mod Faultless
mod Rounds
mod Circles
mod Bare
mod Tells
mod Derived
mod Closing
mod CirclesSame
mod Distinct
mod Named
mod ClausesSame
mod Reported
mod SameFault
pub mod Public
mod SameInFiles
mod DeclaredSame
mod AsksSame
