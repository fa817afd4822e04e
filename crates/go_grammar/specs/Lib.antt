pub mod Categories
pub mod Grammar
pub mod Operators
pub mod Reader
pub mod Rules
pub mod Symbols
pub mod Trees
pub mod Words
