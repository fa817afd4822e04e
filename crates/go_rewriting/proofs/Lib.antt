pub mod Agreeing
pub mod Alike
pub mod Appended
pub mod Begins
pub mod Changes
pub mod Depths
pub mod Endings
pub mod DerivationExamples
pub mod Kept
pub mod Mild
pub mod Operands
pub mod Order
pub mod Places
pub mod Results
pub mod Runs
pub mod Sites
pub mod Subtrees
pub mod Texts
pub mod Words
mod Aligned
mod Copied
mod ExampleCalls
mod ExampleExcerpt
mod ExampleFunction
mod ExampleHoles
mod ExampleNames
mod ExampleParameter
mod ExampleSwitch
mod ExampleWindows
mod Excerpts
mod Items
mod Numbers
mod Parts
mod Rewritten
mod Settled
mod Testing
mod TextExamples
mod Tokens
mod Trees
pub mod Public
