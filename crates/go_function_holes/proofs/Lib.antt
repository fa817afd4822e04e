mod Holed
mod Below
mod ExpressionKinds
mod Typed
mod Expressions
mod Operands
mod Found
pub mod Public
