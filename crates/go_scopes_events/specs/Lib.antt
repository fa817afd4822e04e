pub mod Functions
pub mod Inside
pub mod Moved
pub mod Orders
pub mod Scoped
pub mod Scopes
pub mod Sited
